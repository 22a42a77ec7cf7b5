pub mod Changes
pub mod Legs
pub mod Lending
pub mod Notices
pub mod Questions

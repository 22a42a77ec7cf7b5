pub mod Lawful
pub mod Marks
pub mod Requests

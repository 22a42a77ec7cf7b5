pub mod Tables
pub mod Users

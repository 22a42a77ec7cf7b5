pub mod Commands
pub mod Outcomes
pub mod Words

pub mod Asked
mod Choice
pub mod Tables
mod Turns

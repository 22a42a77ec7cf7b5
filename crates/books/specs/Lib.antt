pub mod Tables
pub mod Model
pub mod Kept
pub mod Words

pub mod Kept
pub mod Lines
pub mod Listing
pub mod Steps

pub mod Played
pub mod Stepping

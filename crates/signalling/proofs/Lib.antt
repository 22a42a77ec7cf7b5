pub mod Asks
pub mod Posted

pub mod Calls
pub mod Lines
pub mod Packings
pub mod Queues
pub mod Rings
pub mod Round

pub mod Ask
pub mod Carrying
pub mod Words
pub mod Writable

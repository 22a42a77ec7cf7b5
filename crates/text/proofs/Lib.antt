pub mod Checks
pub mod Filling
pub mod Lines
pub mod Promises
pub mod Spelling
pub mod Table

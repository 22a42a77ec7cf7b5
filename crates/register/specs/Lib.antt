pub mod Entries
pub mod General
pub mod Refusal
pub mod Table
pub mod User

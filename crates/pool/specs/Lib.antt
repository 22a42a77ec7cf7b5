pub mod Pool
pub mod Refusal

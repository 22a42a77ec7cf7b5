pub mod Fault
pub mod Hex
pub mod Laws
pub mod Octets
pub mod Refusal
pub mod Text
pub mod Words

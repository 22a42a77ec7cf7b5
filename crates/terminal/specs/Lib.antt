pub mod Arriving
pub mod Asking
pub mod Calls
pub mod Laws
pub mod Refusal
pub mod State

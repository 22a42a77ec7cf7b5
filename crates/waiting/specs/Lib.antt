pub mod Law
pub mod Line

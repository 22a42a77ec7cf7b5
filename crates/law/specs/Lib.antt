pub mod Run
pub mod History
pub mod Law

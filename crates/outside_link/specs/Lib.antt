pub mod Echo
pub mod Framed

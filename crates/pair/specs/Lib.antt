pub mod Playing
pub mod Serving
pub mod View

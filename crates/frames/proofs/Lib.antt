pub mod Exact
pub mod Loops
pub mod Packing
pub mod Promises
pub mod Regroup
pub mod Written

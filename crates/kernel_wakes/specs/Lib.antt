pub mod Waits
pub mod Joins
pub mod Calls

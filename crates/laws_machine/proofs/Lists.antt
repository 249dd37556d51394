-- Ready lists and execution priorities.
pub mod Places
pub mod Arrivals
pub mod Priorities
pub mod Kept

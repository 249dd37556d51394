pub mod Cores
pub mod Waiters
pub mod Calls
pub mod Runs

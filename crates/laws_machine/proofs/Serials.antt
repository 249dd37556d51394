-- The serials of waits and records.
pub mod Distinct
pub mod Sweeps
pub mod Costs
pub mod Calls
pub mod Kept

-- Quiet ticks: one charge.
pub mod Ticks
pub mod Prepared
pub mod Once
pub mod Charges
pub mod Runs
pub mod Events
pub mod AnyMachine
pub mod Law

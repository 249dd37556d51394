-- Pending signals.
pub mod Records
pub mod Ignored
pub mod Sources
pub mod Takers

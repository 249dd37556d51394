pub mod Sent
pub mod Awaited
pub mod ClockSet
pub mod Readings

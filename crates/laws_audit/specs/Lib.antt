pub mod Events
pub mod Calm
pub mod Traces

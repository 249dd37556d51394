-- Worked examples: scripts and the text of their runs, each worked by hand. They hold by computing the definition.
pub mod Trace
pub mod Lists
pub mod Servers
pub mod Mutexes
pub mod Signals
pub mod Messages
pub mod Counts
pub mod Cleanups
pub mod States

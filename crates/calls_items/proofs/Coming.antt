-- A thread that came to run has a direct move.
pub mod Steps
pub mod Waits
pub mod Signals
pub mod Clock
pub mod Queues
pub mod Lives
pub mod Items
pub mod Calls

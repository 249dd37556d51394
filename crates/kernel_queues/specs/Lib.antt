pub mod Messages
pub mod Queues

pub mod Statuses
pub mod Command
pub mod Message
pub mod Answer
pub mod Few

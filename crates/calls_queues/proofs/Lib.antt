pub mod Receivers
pub mod Kept
pub mod Entered
pub mod Received

pub mod Words
pub mod Lines
pub mod Joined
pub mod Stops

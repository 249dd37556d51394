pub mod Interrupted
pub mod Visited
pub mod Swept
pub mod Midway
pub mod Expired
pub mod Coming

pub mod Causes
pub mod Bytes
pub mod Memory
pub mod Whole
pub mod Held

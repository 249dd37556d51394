pub mod Taken
pub mod Audited
pub mod Spelled
pub mod Ended

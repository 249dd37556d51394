pub mod Server
pub mod Calls

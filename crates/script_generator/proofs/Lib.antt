pub mod Names
pub mod Threads

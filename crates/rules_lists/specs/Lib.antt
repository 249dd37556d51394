pub mod Threads
pub mod Lists

pub mod Runnable
pub mod KeptLines
pub mod FewSeen
pub mod ToldBits

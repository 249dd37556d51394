pub mod KeptLines
pub mod Seen
pub mod FewSeen
pub mod FactSeen

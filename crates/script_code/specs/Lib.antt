pub mod Fetched
pub mod Packed
pub mod Ready
pub mod ShortCall

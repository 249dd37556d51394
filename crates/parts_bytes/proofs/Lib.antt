pub mod Placed
pub mod Pairs

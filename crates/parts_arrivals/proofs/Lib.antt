pub mod Holding
pub mod Orders
pub mod Ranks
pub mod Words

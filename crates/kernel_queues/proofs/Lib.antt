pub mod Choice
pub mod Opening
pub mod Ranks

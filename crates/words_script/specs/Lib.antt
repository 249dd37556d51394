pub mod Names
pub mod Block
pub mod Kinds
pub mod Tree
pub mod Weight

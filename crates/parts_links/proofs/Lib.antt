mod Blocks
pub mod Chains
pub mod Heads
pub mod Linkeds
mod Memory
pub mod Nth
mod Sharing
pub mod Standing
mod Tails
pub mod Walks
mod Writes

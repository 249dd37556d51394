pub mod Signals
pub mod Writes
pub mod Text
pub mod Counts
mod Firsts
mod Lengths

pub mod Split
pub mod Rejoined
pub mod Places
pub mod Slices
pub mod Lanes
pub mod Runs
pub mod Ahead

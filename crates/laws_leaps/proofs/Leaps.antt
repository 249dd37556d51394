-- Leaps: so many ticks at once.
pub mod Calm
pub mod Bridge
pub mod LastTick
pub mod Law
pub mod Going
pub mod Ahead
pub mod Bounds
pub mod Ended
pub mod Lengths
pub mod Counts
pub mod Scripts

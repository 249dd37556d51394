mod Counting
mod Asking
mod Masking
pub mod ByAge
pub mod Keeping
pub mod Selecting
pub mod Walking
pub mod Killing
mod Timing

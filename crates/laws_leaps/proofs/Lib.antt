pub mod Quiet
pub mod Leaps
pub mod Examples

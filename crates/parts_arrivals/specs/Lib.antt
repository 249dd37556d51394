pub mod Arrivals
pub mod Held
pub mod Marks
pub mod Nth

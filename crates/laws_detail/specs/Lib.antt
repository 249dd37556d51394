pub mod Rests
pub mod Looks
pub mod Leaps
pub mod Subjects
pub mod Flat
pub mod Depths

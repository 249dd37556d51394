pub mod Ages
pub mod Choice
pub mod Kept
pub mod Walks
pub mod Actions
pub mod Timed

-- What a sweep leaves.
pub mod Visits
pub mod Kept

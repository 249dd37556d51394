pub mod Quiet
pub mod Leap

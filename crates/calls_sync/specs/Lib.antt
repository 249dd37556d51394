pub mod Answers
pub mod Premises

pub mod Receives
pub mod Premises

pub mod Premises
pub mod Handled

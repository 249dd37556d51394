pub mod Texts
pub mod Slots

pub mod Carried
pub mod TextOver

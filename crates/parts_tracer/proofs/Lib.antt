mod Examples
pub mod Lines
pub mod Placed
pub mod ShortLines
pub mod Prints
pub mod Tells

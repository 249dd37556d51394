pub mod ShortLines
pub mod Printed
pub mod Prints
pub mod Tells
pub mod Placed

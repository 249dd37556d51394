mod Operands
mod Calls
mod Declarations
mod Steps
mod Openings
mod Table
pub mod Reading
pub mod Generated

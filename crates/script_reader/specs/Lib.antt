pub mod Ends
pub mod NameMap
pub mod Bounds
pub mod Declarations
pub mod ByLetter
pub mod Begun
pub mod Readings

pub mod Bits
pub mod Dues
pub mod Held
pub mod Moves
pub mod Places
pub mod Slots

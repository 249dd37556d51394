pub mod Moves
pub mod UnitRanges

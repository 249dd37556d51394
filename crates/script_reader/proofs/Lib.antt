mod FaultsHere
pub mod Headings
pub mod Least
pub mod KindOrder
pub mod PhaseOne
pub mod LineReads
pub mod Phases
pub mod Whole
pub mod Bounded
pub mod NameEntries
pub mod Unnamed
pub mod Narrowed
mod OnlyNumber
mod Innermost

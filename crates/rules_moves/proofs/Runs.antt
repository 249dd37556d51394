-- What moves and the parts of a tick keep, every run keeps.
pub mod Listed
pub mod Preparing
pub mod Units
pub mod Ticks
pub mod Since
pub mod Beside
pub mod MachineLaws
pub mod Closing

mod Examples
pub mod Versions
pub mod Room
pub mod OneTick
pub mod InWindow
pub mod AsBefore

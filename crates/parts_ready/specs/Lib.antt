pub use Rattle.rules_lists.specs.Threads
pub use Rattle.rules_lists.specs.Lists
pub mod Bits
pub mod Ends
pub mod ReadyView

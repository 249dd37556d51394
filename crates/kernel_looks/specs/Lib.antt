pub mod Nothing
pub mod PendingSignals
pub mod Desk
pub mod Nothings
pub mod Ahead

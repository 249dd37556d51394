-- The law of the budget.
pub mod Entries
pub mod Accounts
pub mod Replenishments
pub mod Booked
pub mod Moves
pub mod Units
pub mod Kept

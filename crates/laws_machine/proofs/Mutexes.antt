-- Owners and waiters of mutexes.
pub mod Chains
pub mod Owners

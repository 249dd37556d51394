pub mod GuardedBodies
pub mod Rest

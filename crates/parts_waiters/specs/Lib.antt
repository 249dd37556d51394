pub mod Held
pub mod Places
pub mod Service
pub mod Ties
pub mod Bound
pub mod View

pub mod Settled
pub mod Stood

pub mod Same
pub mod Delivered
pub mod Generated
pub mod Returned

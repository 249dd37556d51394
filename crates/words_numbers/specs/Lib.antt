pub mod Items
pub mod Parameters
pub mod Signals
pub mod Words

pub mod Block
pub mod Links
pub mod Ownership
pub mod Places
pub mod Rings
pub mod Walks

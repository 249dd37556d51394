pub mod Canonical
pub mod Apart
pub mod Laws
pub mod Tables
pub mod Statements

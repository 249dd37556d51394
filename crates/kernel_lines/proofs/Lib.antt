pub mod Served
pub mod Stands

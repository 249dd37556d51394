pub mod Fetch
pub mod Flat
pub mod Next
pub mod Stands

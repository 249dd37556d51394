pub mod Order
pub mod Dispatched
pub mod Shows
pub mod Details

mod Examples
pub mod Sums
pub mod Parts
pub mod Window
pub mod Order

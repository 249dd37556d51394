pub mod Parts
pub mod ThreeParts
pub mod Rows
pub mod KindOrder
pub mod Alone
mod Fronts

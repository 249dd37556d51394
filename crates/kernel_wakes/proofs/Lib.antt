pub mod Activations
pub mod Risen

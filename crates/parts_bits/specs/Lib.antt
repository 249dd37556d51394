pub mod Sets
pub mod Wide
pub mod Words

pub mod Counts
pub mod Visitable
pub mod FitsKernel

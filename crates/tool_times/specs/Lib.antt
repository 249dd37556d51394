pub mod Tasks
pub mod Schedule
pub mod Equation
pub mod Faults
pub mod Read
pub mod StatementView
pub mod Ends
pub mod Answer

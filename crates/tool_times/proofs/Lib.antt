pub mod Ceilings
pub mod Levels
pub mod Loads
pub mod Course
pub mod Finishes
pub mod TaskSets
pub mod Iteration
pub mod Phases
mod Examples
mod Worked

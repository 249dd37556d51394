pub mod EachThread
pub mod HeadRuns
pub mod Within
pub mod Placeable
pub mod Frames

pub mod Worked
pub mod Counts
pub mod Replays
pub mod Marked
pub mod Judged
pub mod Walks
pub mod Laws
pub mod Accepted
pub mod Leaps
pub mod Advance
pub mod Watches
pub mod Watching
pub mod ClosingTimes
pub mod Phases
pub mod EachServer
pub mod Behind
mod PhaseThree
mod PhaseOne

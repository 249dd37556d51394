-- Who waits, and what a move does to that.
pub mod Best
pub mod AfterMoves
pub mod OfThreads

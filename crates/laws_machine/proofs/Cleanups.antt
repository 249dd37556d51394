-- The cleanup handlers that a thread has pushed.
pub mod Blocks
pub mod Frames
pub mod Calls
pub mod Units
pub mod Kept

pub mod Joined
pub mod Ended
pub mod Popped
pub mod Left
pub mod Asked

pub mod FlatBodies
pub mod Placed
pub mod EachCall
pub mod KnownCalls
pub mod Runnable

pub mod Alike
mod Best
mod Elsewhere
pub mod Firsts
mod Objects
pub mod Precedence
pub mod Served
mod Serving
pub mod Stands
mod Tail
mod Waiting

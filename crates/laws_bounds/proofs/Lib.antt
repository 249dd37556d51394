mod Steps
mod Blocks
mod Decls
pub mod Bounds
pub mod EachDecl
pub mod EachBody
pub mod Operands
pub mod Calls
pub mod Bodies
pub mod Declared
pub mod Objects
pub mod Runnable
pub mod Generated

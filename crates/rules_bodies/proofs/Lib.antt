pub mod Lands
pub mod Places
pub mod Agrees
pub mod Opens
pub mod Examples
pub mod Relative

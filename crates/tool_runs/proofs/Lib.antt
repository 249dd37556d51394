pub mod Opened
pub mod FewObjects
pub mod SameScript

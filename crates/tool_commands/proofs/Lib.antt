pub mod Promises
pub mod Whole
pub mod Audits
pub mod Serials
pub mod Taken
pub mod Seen
pub mod CarriedOut
pub mod Called

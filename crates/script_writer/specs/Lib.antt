pub mod Words
pub mod Names
pub mod Canon
pub mod Line
pub mod Writes
pub mod Upgraded
pub mod Firsts
pub mod Subjects

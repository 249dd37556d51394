pub mod Units
pub mod Declared
pub mod FirstVersion
pub mod Before

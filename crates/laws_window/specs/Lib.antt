pub mod Window
pub mod Before

pub mod Before
pub mod Restored

pub mod Generated
pub mod Tested

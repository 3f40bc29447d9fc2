pub mod FirstBytes
pub mod Whole
pub mod Filled

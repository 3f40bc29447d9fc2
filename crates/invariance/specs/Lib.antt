pub mod Symmetric
pub mod Inner

pub mod Symmetries
pub mod Representative

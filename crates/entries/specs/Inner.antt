pub mod Whole
pub mod Choices

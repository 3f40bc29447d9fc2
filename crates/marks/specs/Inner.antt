pub mod Marks
pub mod Putting

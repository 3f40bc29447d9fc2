pub mod Worth
pub mod Choosing

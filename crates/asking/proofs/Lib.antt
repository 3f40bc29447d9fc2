pub mod Keys
pub mod Removing

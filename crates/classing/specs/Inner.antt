pub mod Classes
pub mod Conditions

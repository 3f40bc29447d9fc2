pub mod Masks
pub mod Placing

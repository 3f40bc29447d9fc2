pub mod Digits
pub mod Items

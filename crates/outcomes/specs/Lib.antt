pub mod Whole
pub mod Places
pub mod Pair
pub mod Filled
pub mod Order
pub mod Inner

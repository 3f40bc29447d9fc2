pub mod Rank
pub mod Unrank
pub mod Inner

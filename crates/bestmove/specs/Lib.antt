pub mod Best
pub mod Inner

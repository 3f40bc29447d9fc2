pub mod Size
pub mod Inner

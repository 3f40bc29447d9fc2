pub mod Right
pub mod Certificate

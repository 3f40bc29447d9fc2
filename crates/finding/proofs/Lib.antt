pub mod Firsts
pub mod LeastDepth
pub mod Occurs

pub mod Standing
pub mod Chosen

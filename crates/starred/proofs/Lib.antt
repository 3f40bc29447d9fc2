pub mod FrameCases
pub mod Starred

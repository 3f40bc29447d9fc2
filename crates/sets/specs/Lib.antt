pub mod Sets
pub mod Taken

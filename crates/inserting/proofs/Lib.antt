pub mod Puts
pub mod Insertions

pub mod Least
pub mod Picked
pub mod Written

pub mod Binomials
pub mod Multinomials
pub mod Products
pub mod Rows

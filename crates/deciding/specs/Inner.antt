pub mod Fits
pub mod Open

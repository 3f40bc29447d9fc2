pub mod Geometry
pub mod Tables

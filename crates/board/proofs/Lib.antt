pub mod Sides
pub mod Counts
pub mod OneToOne
pub mod Stores

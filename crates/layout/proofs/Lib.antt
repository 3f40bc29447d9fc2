pub mod Consecutive
pub mod Places
pub mod OneToOne

pub mod Rankable

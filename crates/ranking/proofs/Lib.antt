pub mod Reading
pub mod Inverse
pub mod Steps
pub mod Digits
pub mod StoneRanks
pub mod OnSets

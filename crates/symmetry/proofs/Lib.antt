pub mod Group
pub mod Images
pub mod Sums
pub mod Compose
pub mod Least
pub mod Classes
pub mod Worked

pub mod Reading
pub mod Probed

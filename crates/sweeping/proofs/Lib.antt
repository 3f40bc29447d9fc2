pub mod Sources
pub mod Steps

pub mod Stands
pub mod Answered

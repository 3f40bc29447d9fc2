pub mod Judged
pub mod Questions
pub mod Passing
pub mod Boards
pub mod Verdict
pub mod Outcomes
pub mod Places

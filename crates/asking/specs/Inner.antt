pub mod Keys
pub mod Questions

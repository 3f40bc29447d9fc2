pub mod Play
pub mod PlayByBest

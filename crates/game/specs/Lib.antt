pub mod Game
pub mod Judgement
pub mod Play

pub mod MovesCall
pub mod MakeMoveCall

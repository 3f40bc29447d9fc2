pub mod BestMove
pub mod Inner

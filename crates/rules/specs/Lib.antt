pub mod MoveList
pub mod Ply
pub mod Predecessors
pub mod Unreachable
pub mod Inner

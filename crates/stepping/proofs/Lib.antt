pub mod RunEnds
pub mod Extremes
pub mod Following
pub mod BoardSets
pub mod Descents
pub mod NextPosition
pub mod Runs

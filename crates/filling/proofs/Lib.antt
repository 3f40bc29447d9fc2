pub mod PairTables
pub mod States
pub mod NextLevel
pub mod Answered
pub mod PairStates
pub mod PairClasses
pub mod Deep

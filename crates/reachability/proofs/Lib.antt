pub mod MillsLeft
pub mod OnPositions

pub mod BoardPositions
pub mod FullMills
pub mod Movable
pub mod OnPositions
pub mod SomeMove
pub mod StoneMoves

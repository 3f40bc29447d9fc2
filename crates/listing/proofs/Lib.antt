pub mod MoveCounts
pub mod SlideMoves

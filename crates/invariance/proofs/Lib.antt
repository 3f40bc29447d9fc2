pub mod Kept
pub mod Stores
pub mod Plies
pub mod Groups
pub mod WholeMaps
pub mod PairMaps
pub mod TrueSymmetric

pub mod LowerVoid
pub mod LowerMaps

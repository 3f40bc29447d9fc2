pub mod LookupCall
pub mod BestMoveCall

pub mod ReadFrameCall
pub mod WriteFrameCall

pub mod RoundTrip
pub mod FrameRoundTrip

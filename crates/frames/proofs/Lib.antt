pub mod Characters
pub mod RoundTrip

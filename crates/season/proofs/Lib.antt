pub mod ReadingBack
pub mod RoundTrip

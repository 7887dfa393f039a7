pub mod Answers
pub mod RoundTrip

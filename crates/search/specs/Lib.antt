pub mod Walks
pub mod Answers
pub mod Queue
pub mod Visits

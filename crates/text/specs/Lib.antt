pub mod Split
pub mod Numbers
pub mod Outcomes
pub mod Counted
pub mod Giving

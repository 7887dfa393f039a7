pub mod Unseen
pub mod Joining
pub mod Steps
pub mod Ends
pub mod Telling

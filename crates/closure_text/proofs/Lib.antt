pub mod Gathering
pub mod Starts
pub mod Writing

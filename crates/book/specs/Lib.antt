pub mod Slots
pub mod Consistency
pub mod Records

pub mod Sheets
pub mod Unique
pub mod Rebuilding
pub mod Sorting
pub mod Stages

pub mod Sizes
pub mod Counts
pub mod Rows
pub mod Lists

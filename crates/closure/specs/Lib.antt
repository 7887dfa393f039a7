pub mod Silent
pub mod Neighbours

pub mod Arcs
pub mod Least
pub mod Paths

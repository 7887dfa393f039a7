pub mod Yielding
pub mod First
pub mod Back
pub mod Places
pub mod Numerals
pub mod Parting

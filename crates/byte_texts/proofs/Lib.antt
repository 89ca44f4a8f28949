pub mod Numerals
pub mod Parting

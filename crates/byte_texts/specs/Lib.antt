pub mod Decimals
pub mod Hexadecimal
pub mod Outcomes
pub mod Parts
pub mod Words

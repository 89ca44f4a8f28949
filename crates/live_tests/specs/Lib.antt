pub mod Sittings
pub mod Turns

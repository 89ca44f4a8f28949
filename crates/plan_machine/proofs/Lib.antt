pub mod Ending
pub mod Listed

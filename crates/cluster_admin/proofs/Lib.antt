pub mod Marks
pub mod Phasing
pub mod Surveyed
pub mod Telling

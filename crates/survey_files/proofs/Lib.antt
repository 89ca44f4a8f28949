pub mod Covered
pub mod Filling
pub mod Numbered
pub mod Telling

pub mod Following
pub mod InTwo
pub mod Listed
pub mod Spelling
pub mod Taking

pub mod Answers
pub mod NamedErrors
pub mod Servers
pub mod Shown
pub mod Spelling
pub mod Telling

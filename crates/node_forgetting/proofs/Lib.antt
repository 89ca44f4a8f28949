pub mod Listed
pub mod Outcomes
pub mod Says
pub mod Told
pub mod Weaker

pub mod Forgetting
pub mod Holding
pub mod Naming
pub mod Others
pub mod Outcomes
pub mod Telling
pub mod Texts

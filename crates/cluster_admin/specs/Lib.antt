pub mod Commands
pub mod Faults
pub mod Keys
pub mod Phases
pub mod Surveys
pub mod Telling

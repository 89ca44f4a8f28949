pub mod Covering
pub mod Faults
pub mod Lines
pub mod Numbering
pub mod Reading
pub mod Surveys

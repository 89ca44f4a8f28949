pub mod Faults
pub mod Rows
pub mod Setting
pub mod Tables
pub mod Verdicts

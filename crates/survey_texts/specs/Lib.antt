pub mod Details
pub mod Expecting
pub mod Faults
pub mod Texts

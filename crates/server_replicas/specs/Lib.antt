pub mod Asking
pub mod Marks
pub mod Replicas
pub mod Telling

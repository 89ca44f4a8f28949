pub mod Batches
pub mod Faults
pub mod Forms
pub mod Lines
pub mod Words

pub mod Batches
pub mod Faults
pub mod Frames
pub mod Laws
pub mod Reading

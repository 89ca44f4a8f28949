pub mod Faults
pub mod Inputs
pub mod Known
pub mod Memory
pub mod Streams

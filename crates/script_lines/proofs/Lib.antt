pub mod Batches
pub mod Escapes
pub mod Halting
pub mod Shapes

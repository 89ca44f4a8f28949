pub mod HashSlot
pub mod HashTag
pub mod Numbers
pub mod OneSlot
pub mod Owners
pub mod Polynomials
pub mod Ranges
pub mod Starts

pub mod Batches
pub mod Counting
pub mod Moved
pub mod Questions
pub mod Rounds
pub mod Tables

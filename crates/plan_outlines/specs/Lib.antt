pub mod Changes
pub mod Nodes
pub mod Pairs

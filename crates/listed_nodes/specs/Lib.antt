pub mod Addresses
pub mod Names
pub mod Nodes
pub mod SlotWords

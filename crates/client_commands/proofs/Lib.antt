pub mod Names
pub mod Pairs
pub mod Spellings
pub mod Tables

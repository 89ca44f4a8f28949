pub mod Addressing
pub mod CommandLines
pub mod Each
pub mod Options
pub mod Walks

pub mod Lines
pub mod Others
pub mod Texts

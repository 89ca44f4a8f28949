pub mod Checked
pub mod Put

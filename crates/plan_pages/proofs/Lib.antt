pub mod Columns
pub mod Lines
pub mod Narrow
pub mod NoLines
pub mod ReadBack

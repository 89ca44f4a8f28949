pub mod Faults
pub mod Gone
pub mod Naming
pub mod Numbers
pub mod Rows
pub mod Surveying
pub mod Views

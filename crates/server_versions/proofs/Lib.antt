pub mod More
pub mod Told

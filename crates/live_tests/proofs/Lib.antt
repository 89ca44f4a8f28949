pub mod Sitting
pub mod Turning

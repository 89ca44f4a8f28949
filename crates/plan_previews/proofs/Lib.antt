pub mod Flat
pub mod Servers
pub mod Told
pub mod Unshown

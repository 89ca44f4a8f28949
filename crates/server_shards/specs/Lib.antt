pub mod Asking
pub mod Returning
pub mod Shards
pub mod Targets

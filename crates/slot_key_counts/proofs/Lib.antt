pub mod Placed
pub mod Small
pub mod Walked
pub mod Wanted

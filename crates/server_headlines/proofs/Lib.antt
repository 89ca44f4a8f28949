pub mod AtServers
pub mod Headlines
pub mod InAnyOrder
pub mod Listing
pub mod WorldsSettled

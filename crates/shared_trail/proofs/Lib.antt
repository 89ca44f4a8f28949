pub mod Keeps
pub mod Locally
pub mod Moves
pub mod Runs
pub mod Stages
pub mod Standing
pub mod Surveyed

pub mod Cases
pub mod Headline
pub mod Runs
pub mod Seen

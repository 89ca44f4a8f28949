pub mod Applied
pub mod Attempts
pub mod Closed
pub mod Ended
pub mod Looked
pub mod RestPlans
pub mod Settled
pub mod Unfound

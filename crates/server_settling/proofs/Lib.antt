pub mod AllSlots
pub mod Answered
pub mod Keeping
pub mod LongListing
pub mod Parts
pub mod Reading
pub mod Searches
pub mod Sending

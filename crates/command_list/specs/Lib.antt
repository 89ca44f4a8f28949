pub mod Entries
pub mod Listing
pub mod Replies
pub mod Shown

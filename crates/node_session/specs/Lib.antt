pub mod Conversations
pub mod Ends
pub mod Memory
pub mod Requests
pub mod SessionBytes
pub mod Talk
pub mod Wants

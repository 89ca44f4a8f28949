pub mod Addresses
pub mod Executing
pub mod Following
pub mod Honestly
pub mod Meanings
pub mod OneMeaning
pub mod ServedOnce
pub mod Waiting

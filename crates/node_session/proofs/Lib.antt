pub mod Answered
pub mod Closing
pub mod FaultLines
pub mod Words

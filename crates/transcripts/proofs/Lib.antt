pub mod OnTranscript
pub mod Plain
pub mod Printed
pub mod Writings
pub mod Verdicts

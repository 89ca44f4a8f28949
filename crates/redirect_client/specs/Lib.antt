pub mod ClientRuns
pub mod ClientView
pub mod Executions
pub mod Faults
pub mod HonestClients
pub mod Redirects
pub mod Turns
pub mod WorldExecutions

pub mod Asked
pub mod Carried
pub mod Clients
pub mod Growing
pub mod Quits
pub mod Served
pub mod Told
pub mod Verdicts

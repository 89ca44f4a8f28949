pub mod ServersInOneGo
pub mod ServersRuns
pub mod Worlds

pub mod NodeLines
pub mod Numbered
pub mod Shards
pub mod StateLines

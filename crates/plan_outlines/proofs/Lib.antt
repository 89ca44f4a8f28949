pub mod Covering
pub mod EachNode
pub mod EachPair
pub mod FromLast
pub mod Holding
pub mod PairTallies
pub mod Tallies

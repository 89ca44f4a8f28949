pub mod Finals
pub mod OnePhase
pub mod Others
pub mod OwnedMoves
pub mod Unrolling

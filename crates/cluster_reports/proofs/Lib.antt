pub mod Chains
pub mod Lengths
pub mod Numbers
pub mod Owning
pub mod Trees

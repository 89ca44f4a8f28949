pub mod Chains
pub mod Filled
pub mod Mapped
pub mod Tiled

pub mod Holes
pub mod Chains
pub mod Passes
pub mod Longest
pub mod Cycles
pub mod Listed
pub mod Flipped

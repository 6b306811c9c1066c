pub mod Paths
pub mod Passes
pub mod Listed

pub mod Sizes
pub mod Names

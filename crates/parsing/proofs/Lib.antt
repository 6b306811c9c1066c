pub mod Whole
pub mod Limits
pub mod Parsing

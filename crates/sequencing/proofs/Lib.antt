pub mod Reached
pub mod Ready

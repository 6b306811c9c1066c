pub mod Tokens
pub mod Readings

pub mod Places
pub mod Counts

pub mod TooShort
pub mod Copies

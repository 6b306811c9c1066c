pub mod Seeing
pub mod Steps
pub mod Checking
pub mod Rows

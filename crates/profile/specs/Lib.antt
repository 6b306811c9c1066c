pub mod Steps
pub mod Raises
pub mod Keeps

pub mod Relaxing
pub mod Settling
pub mod Steps

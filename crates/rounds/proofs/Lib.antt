pub mod Written
pub mod Reached
pub mod Follows

pub mod Numbers
pub mod Takes
pub mod Tables
pub mod Limits

pub mod Listed
pub mod Sorted

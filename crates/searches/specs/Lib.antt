pub mod Found
pub mod Busy
pub mod Listed

pub mod Busy
pub mod Answers

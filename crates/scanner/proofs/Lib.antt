pub mod Tokens
pub mod Runs
pub mod Numbers
pub mod First

pub mod Pairs
pub mod Rows
pub mod ShutOut
pub mod Schedules

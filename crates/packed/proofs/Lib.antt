pub mod Places
pub mod Same
pub mod Worked

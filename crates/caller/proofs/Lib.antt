pub mod Telling
pub mod Same
pub mod Uses

pub mod Sayings

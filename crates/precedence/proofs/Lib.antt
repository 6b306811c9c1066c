pub mod Pairs
pub mod Orders

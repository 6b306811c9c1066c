pub mod Limits
pub mod GoodList
pub mod Renumbered

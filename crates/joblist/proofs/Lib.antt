pub mod Refusals
pub mod Renumbered

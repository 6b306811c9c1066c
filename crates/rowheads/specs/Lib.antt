pub mod Heads
pub mod Says

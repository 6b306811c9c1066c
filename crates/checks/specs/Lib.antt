pub mod Replay
pub mod Fate
pub mod Promise

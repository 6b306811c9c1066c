pub mod Nodes
pub mod Ranges
pub mod Climbs
pub mod Tails
pub mod Descents
pub mod Walks

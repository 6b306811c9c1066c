pub mod Time
pub mod Search
pub mod Edges
pub mod Reason
pub mod Table
pub mod Reasons
pub mod Promise
pub mod Reordered

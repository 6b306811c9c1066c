pub mod Precedences
pub mod Search
pub mod Mirror
pub mod Promise
pub mod Reordered

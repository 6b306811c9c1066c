pub mod Ask
pub mod Table
pub mod Reasons
pub mod Promise
pub mod Plain
pub mod Counted
pub mod Reordered

pub mod Marks
pub mod Apart
pub mod Table
pub mod Promise

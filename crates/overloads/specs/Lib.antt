pub mod Overload
pub mod Promise

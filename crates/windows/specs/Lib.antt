pub mod Bounds
pub mod Sides
pub mod Found

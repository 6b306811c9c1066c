pub mod Sides
pub mod Found

pub mod Lines
pub mod Headings

pub mod Cases
pub mod Facts
pub mod Marks

pub mod Readings
pub mod Exactly
pub mod Given

pub mod Walk
pub mod Comes

pub mod Cases
pub mod Joined
pub mod Limits
pub mod Exactly

pub mod Fates
pub mod Rows
pub mod Firm
pub mod Meaning
pub mod Replays
pub mod Taken
pub mod Ragged

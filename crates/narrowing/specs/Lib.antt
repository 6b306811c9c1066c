pub mod Windows
pub mod Rules
pub mod Schedules
pub mod Renumbered
pub mod Search
pub mod Run
pub mod Rounds
pub mod Led

pub mod Calls
pub mod Tests
pub mod Table
pub mod Promise
pub mod When
pub mod Write
pub mod WriteWhen

pub mod Narrowing
pub mod Checking
pub mod Conflicts
pub mod Overloads
pub mod Sequencing
pub mod Reading
pub mod Writing
pub mod Showing

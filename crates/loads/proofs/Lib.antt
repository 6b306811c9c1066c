pub mod Full
pub mod Building
pub mod Following

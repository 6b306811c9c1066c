pub mod Writing
pub mod Says
pub mod Said

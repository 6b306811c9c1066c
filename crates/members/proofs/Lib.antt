pub mod Bits
pub mod Sets
pub mod Inserted
pub mod Joined
pub mod Spares
pub mod Writing
pub mod Examples

pub mod Pieces
pub mod Stores
pub mod Cuts
pub mod Raised
pub mod Keeping

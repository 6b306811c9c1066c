pub mod PairPlaces
pub mod Sweeps
pub mod Turns

pub mod Law
pub mod Search
pub mod Between
pub mod Exact
pub mod Mirror
pub mod Order
pub mod Meaning
pub mod Laws

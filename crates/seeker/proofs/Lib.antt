pub mod Looking
pub mod Standing

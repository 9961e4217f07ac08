pub mod Closed
pub mod Standing

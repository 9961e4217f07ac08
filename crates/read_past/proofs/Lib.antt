pub mod Stretching
pub mod Standing
pub mod Closing

pub mod Waiting
pub mod Replacing

pub mod Steps
pub mod Blocks
pub mod Replaced
pub mod Each
pub mod Parts
pub mod Decode
pub mod Held
pub mod AccessLaws

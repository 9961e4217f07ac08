pub mod Braces
pub mod Acting
pub mod Decoding
pub mod Parts
pub mod Occurring
pub mod Preparing

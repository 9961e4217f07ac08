pub mod Held
pub mod Lines
pub mod Parts
pub mod Run
pub mod Said

pub mod Elements
pub mod Measuring

pub mod Traced
pub mod FullCases

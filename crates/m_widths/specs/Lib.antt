pub mod Widths
pub mod Widened
pub mod WidthCases

pub mod Moments
pub mod Codes
pub mod Texts

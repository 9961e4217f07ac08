pub mod Inserting
pub mod Digits

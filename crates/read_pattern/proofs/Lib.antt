pub mod Braces
pub mod Insides

pub mod BadBytes
pub mod Firsts

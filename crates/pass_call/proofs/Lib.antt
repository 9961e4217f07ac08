pub mod Moving
pub mod Entries

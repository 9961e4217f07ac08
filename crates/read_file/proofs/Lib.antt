pub mod Storing
pub mod Adding
pub mod Restoring

pub mod Pattern
pub mod Pieces

pub mod Items
pub mod Spelled
pub mod Tallies

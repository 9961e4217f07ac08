pub mod Copying
pub mod Slotting

pub mod Flags
pub mod Beginning

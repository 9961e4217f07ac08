pub mod Decoded
pub mod Slotted
pub mod Tabled
pub mod Files
pub mod Listed
pub mod Onward

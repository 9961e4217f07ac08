pub mod Twos
pub mod Lacking

pub mod Stepping
pub mod Codes
pub mod Copying
pub mod Handing

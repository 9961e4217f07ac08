pub mod Closing
pub mod Running
pub mod Stepping
pub mod Starting

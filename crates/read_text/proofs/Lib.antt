pub mod Phases
pub mod Turns
pub mod Closing
pub mod Texts

pub mod Forming
pub mod Looking
pub mod Marking
pub mod Walking

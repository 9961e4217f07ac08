pub mod Contract
pub mod Ordering

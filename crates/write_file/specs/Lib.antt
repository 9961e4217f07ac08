pub mod Slots
pub mod Contract

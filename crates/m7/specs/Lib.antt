pub mod Contract
pub mod Feeding
pub mod HostRefusal
pub mod Words
pub mod Recovering
pub mod Widening

pub mod Contract
pub mod Taking

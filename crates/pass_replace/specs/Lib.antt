pub mod Contract
pub mod Tags
pub mod Acting

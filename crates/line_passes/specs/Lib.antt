pub mod Contract
pub mod Due
pub mod Passing

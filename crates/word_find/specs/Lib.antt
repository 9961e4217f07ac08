pub mod Contract
pub mod Letters
pub mod Marks
pub mod Walk

pub mod Contract
pub mod Marks
pub mod Finding
pub mod Trying
pub mod Seen
pub mod Places
pub mod PassMoments

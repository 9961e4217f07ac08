pub mod Ends
pub mod Grown
pub mod Stretches
pub mod Exactly
pub mod Keeps
pub mod Endings
pub mod Alone

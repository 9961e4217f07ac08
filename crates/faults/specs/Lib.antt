pub mod Refusal
pub mod Recover
pub mod RecoverLaw
pub mod RecoverKeeps
pub mod Cases

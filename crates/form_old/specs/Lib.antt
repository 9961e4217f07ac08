pub mod Refusal
pub mod Old
pub mod OldCases
pub mod OldLaws

pub mod Past
pub mod StretchLaw

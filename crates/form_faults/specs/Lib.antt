pub mod Form
pub mod FormLaw
pub mod Cases

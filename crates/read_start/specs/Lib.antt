pub mod Next
pub mod NextLaw
pub mod Start

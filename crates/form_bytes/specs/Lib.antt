pub mod Fours
pub mod FoursLaws
pub mod Zeros

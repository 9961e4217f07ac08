pub mod PatternLaws
pub mod CoverLaws
pub mod WordLaws
pub mod LookLaws

pub mod CutLaws
pub mod FlagLaws

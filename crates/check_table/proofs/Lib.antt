pub mod PatternLaws
pub mod ActionLaws
pub mod WalkLaws
pub mod SlotLaws

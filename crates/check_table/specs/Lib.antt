pub mod PatternCode
pub mod ActionCode

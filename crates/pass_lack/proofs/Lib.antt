pub mod PairLaws
pub mod LackLaws
pub mod DifferLaws

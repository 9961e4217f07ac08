pub mod MarkLaws
pub mod PairLaws

pub mod Demand2
pub mod OneFeed
pub mod LargerLaws
pub mod Demand3Laws
pub mod TraceLaws
pub mod MeasureLaws
pub mod RecoverLaws
pub mod WidthLaws

pub mod Measure
pub mod Numbers
pub mod MeasureLaw
pub mod Cases

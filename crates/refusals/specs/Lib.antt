pub mod Faults
pub mod FaultCases

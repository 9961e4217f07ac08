pub mod LargeCases

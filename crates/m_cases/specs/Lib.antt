pub mod Songs

pub mod Coming
pub mod Seeking

pub mod ItemLaws
pub mod TextLaws
pub mod CopyFits

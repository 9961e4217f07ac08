pub mod Signs
pub mod Elements

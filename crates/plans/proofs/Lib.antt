pub mod Most
pub mod Small
pub mod Laws

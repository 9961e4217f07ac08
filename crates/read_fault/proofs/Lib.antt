pub mod Listing
pub mod Searching

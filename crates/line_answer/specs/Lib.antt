pub mod Fed
pub mod Replies

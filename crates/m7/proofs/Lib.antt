pub mod Places
pub mod Results
pub mod WidthResults
pub mod Measuring
pub mod FeedBounds
pub mod FeedResults
pub mod WordResults
pub mod RecoverResults

pub mod Members
pub mod Buckets
pub mod Subscribers
pub mod Answers
pub mod Reading

pub mod Buckets
pub mod Records

pub mod Questions
pub mod Words

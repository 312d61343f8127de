pub mod Subjects
pub mod Posts
pub mod Archive
pub mod Threads
pub mod Reading
pub mod Appending
pub mod Answers
pub mod Reads

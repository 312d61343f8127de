pub mod Import
pub mod Imports
pub mod Mailboxes
pub mod Numbers
pub mod Questions
pub mod Steps
pub mod Words

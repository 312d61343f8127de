mod Bounced
mod Posts
pub mod Requests
mod Sending
mod Senders
pub mod Others
mod OfArchive
mod ForRequests
pub mod Written
mod Finding
mod PostsApart
mod PostsSpared
mod Apart
mod Spared

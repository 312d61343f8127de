mod Recipients
mod Rows
mod SentText
mod Posts
mod Waiting
mod Outcomes
mod Moderated
mod Fitting
mod Beside
mod Sought
pub mod Finding
mod Read
mod Judged
mod Apart
mod Spared
mod Decided

mod Records
mod Logs
mod Spelled
mod Tables
mod ReadSoFar
mod Crash
mod Closing
mod Laid
mod Fields
mod Sizes
mod Shut
pub mod Keeping
mod Settled
pub mod Held
mod Spent
mod Handed
mod Buffered
mod Opened
mod Examples

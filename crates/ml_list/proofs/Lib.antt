pub mod Damages
pub mod FloorFiles
pub mod Reading
pub mod Lists
pub mod Risen
pub mod Steps
pub mod LookedUp
pub mod States
pub mod Named
pub mod Asked
pub mod Told
pub mod Written
pub mod Looked
pub mod Again
mod Delivered
mod Undamaged
mod Readable
mod Requested
mod Finding

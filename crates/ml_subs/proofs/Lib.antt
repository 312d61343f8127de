pub mod Folded
pub mod Options
pub mod Spelled
pub mod Layouts
pub mod Counted
pub mod Represented
pub mod Answering
pub mod Gathering
pub mod Addressed
mod Examples

pub mod Exact
pub mod Represented
pub mod OneMore
pub mod FoundThreads
pub mod KeyLengths
pub mod KeyTurns
pub mod Looking
pub mod Rows
pub mod Filed
pub mod Lengthened
pub mod ByFiles
pub mod Ranged
pub mod Threaded
pub mod Indexed
mod Examples
pub mod Asked
pub mod Calls

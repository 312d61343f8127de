pub mod Stream
pub mod Reading
pub mod Items
pub mod Writing

pub mod Represented
pub mod Paths

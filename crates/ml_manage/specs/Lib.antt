pub mod Reads
pub mod Leaving
pub mod Texts
pub mod Written
pub mod Found
pub mod Parts

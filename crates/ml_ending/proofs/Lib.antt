pub mod Written
pub mod Said
pub mod Finished
pub mod Leaving

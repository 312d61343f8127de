pub mod Finding
pub mod Summing
pub mod Exercising
pub mod Running

pub mod Risen

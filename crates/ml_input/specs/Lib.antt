pub mod Asking
pub mod Input

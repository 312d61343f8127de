pub mod Reading
pub mod Drawings
pub mod Stood
pub mod Cutting
pub mod Rising
pub mod Numbered
pub mod OfFiles
pub mod Walked

pub mod Configuration
pub mod ConfigFile
pub mod Reading
pub mod KeyFile
pub mod FirstFiles
pub mod Make
pub mod Flags
pub mod MakeWords

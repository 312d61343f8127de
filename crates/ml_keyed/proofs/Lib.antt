pub mod Keys
pub mod Union
pub mod Files
pub mod Parsed
pub mod Rewritten
pub mod Exact

pub mod Small
pub mod FlagLemmas
pub mod MatchLemmas
pub mod FaultSteps
pub mod Faultless
pub mod ListAddress
pub mod Checked
pub mod Clean
pub mod LineLemmas
pub mod OneSpelling
pub mod KeyLemmas
pub mod ReadLemmas
pub mod FirstFileLemmas
mod Examples

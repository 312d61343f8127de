mod ExampleItems
mod Examples
mod RequestExamples
mod BounceExamples
mod ArchiveExamples
pub mod Deliveries
pub mod Mailed
pub mod Places
pub mod Bases
pub mod Steps
pub mod PostLaw
pub mod Lasting
pub mod Asked
pub mod Leaving
pub mod LeavingLaw
pub mod Ledgers
pub mod Origins
pub mod Tracing
pub mod TimedTrace
pub mod ChainLaw
pub mod Turns
pub mod History
pub mod Joining
pub mod Slots
pub mod KeptExact
pub mod Frames
pub mod StateFiles
pub mod OneState
pub mod PartChanges
pub mod Changes
pub mod NewList
pub mod Silent
pub mod DigestLaw
pub mod IssueLaw
pub mod HeaderRows
pub mod OneLine
pub mod MailLaw
pub mod SentMails

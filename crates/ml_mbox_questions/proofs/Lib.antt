pub mod Ranged
pub mod Turns
pub mod Represented
pub mod Imported
pub mod Streams
pub mod MailTurns

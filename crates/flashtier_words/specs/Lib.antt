pub mod Command
pub mod Matching
pub mod Spoken

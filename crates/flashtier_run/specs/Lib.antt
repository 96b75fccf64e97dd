pub mod Ends
pub mod Over
pub mod Runs
pub mod Setup
pub mod Status
pub mod Words

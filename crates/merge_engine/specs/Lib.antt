pub mod Agreement
pub mod Room
pub mod Steps
pub mod LogSteps
pub mod Merges
pub mod Switch
pub mod Loaded
pub mod Kept

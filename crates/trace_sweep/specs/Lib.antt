pub mod Causes
pub mod Ends
pub mod Runs
pub mod SoFar

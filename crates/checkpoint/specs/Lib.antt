pub mod Asked
pub mod Counts
pub mod Current
pub mod Found
pub mod Regions
pub mod Walk
pub mod Commits

pub mod Examples
pub mod ShowLemmas
pub mod Vectors

pub mod BackLemmas
pub mod ThroughLemmas

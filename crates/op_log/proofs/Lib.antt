pub mod ApplyLemmas
pub mod PageLemmas
pub mod WalkLemmas

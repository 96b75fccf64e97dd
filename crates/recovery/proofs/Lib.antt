pub mod RefusalLemmas
pub mod WalkLemmas
pub mod PlaceLemmas
pub mod LoadLemmas
pub mod PlainLemmas

pub mod GroupLemmas
pub mod EntryLemmas
pub mod PlainLemmas
pub mod VictimLemmas

pub mod SealLemmas
pub mod PlainLemmas
pub mod SealsLemmas
pub mod TearingLemmas
pub mod ShownLemmas
pub mod MemLemmas

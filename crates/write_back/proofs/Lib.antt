pub mod CleaningLemmas
pub mod CopyLemmas
pub mod GroupLemmas
pub mod PartLemmas
pub mod TableLemmas
pub mod VolumeLemmas
pub mod WriteLemmas
pub mod OpenLemmas

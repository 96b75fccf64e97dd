pub mod WidthLemmas
pub mod RecordLemmas
pub mod HeaderLemmas
pub mod PageLemmas
pub mod SealLemmas

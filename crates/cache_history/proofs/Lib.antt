pub mod StepLemmas
pub mod GoneLemmas
pub mod MightLemmas
pub mod LawLemmas
pub mod ListedLemmas
pub mod OwnLemmas
pub mod CommandLemmas
pub mod RefusedLemmas

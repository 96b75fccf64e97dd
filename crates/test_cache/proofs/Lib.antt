pub mod UpLemmas
pub mod PartsLemmas

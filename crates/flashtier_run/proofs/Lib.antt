pub mod RunsLemmas
pub mod SetupLemmas
pub mod StatusLemmas
pub mod WordsLemmas
pub mod ParityLemmas

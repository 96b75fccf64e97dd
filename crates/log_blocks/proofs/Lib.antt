pub mod LogsLemmas

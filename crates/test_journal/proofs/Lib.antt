pub mod CommitsLemmas

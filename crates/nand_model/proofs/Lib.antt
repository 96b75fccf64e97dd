pub mod BlocksLemmas

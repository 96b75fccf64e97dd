pub mod XorLemmas
pub mod KeptLemmas
pub mod TiedLemmas
pub mod WritesLemmas
pub mod ShownLemmas
pub mod ProgramLemmas
pub mod SinceLemmas

pub mod EachLemmas
pub mod LeastLemmas
pub mod XorLemmas

pub mod PoolLemmas
pub mod TakeLemmas

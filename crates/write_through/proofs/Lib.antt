pub mod TakeLemmas
pub mod PutLemmas
pub mod WriteLemmas
pub mod VolumeLemmas

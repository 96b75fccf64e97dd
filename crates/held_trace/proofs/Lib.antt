pub mod SweepLemmas
pub mod FrontLemmas
pub mod HeldLemmas

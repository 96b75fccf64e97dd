pub mod Msr
pub mod Trace

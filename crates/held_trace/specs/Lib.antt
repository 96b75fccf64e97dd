pub mod Sweep
pub mod Held
pub mod Front

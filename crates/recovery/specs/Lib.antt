pub mod Addresses
pub mod Loaded
pub mod Plain

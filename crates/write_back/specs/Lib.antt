pub mod Cleaning
pub mod Left
pub mod Writing
pub mod Tables

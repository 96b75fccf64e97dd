pub mod Xor
pub mod Kept
pub mod Shown
pub mod Tied
pub mod Laws
pub mod Writes
pub mod Since

pub mod Faultless

pub mod Stamps
pub mod Log
pub mod Walk
pub mod Refusals

pub mod History
pub mod Moment

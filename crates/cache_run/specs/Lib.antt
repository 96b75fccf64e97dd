pub mod Begun
pub mod Costed
pub mod Counted
pub mod Default
pub mod Ends
pub mod Inspected
pub mod Status
pub mod Fitted

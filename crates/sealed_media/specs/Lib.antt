pub mod Seal
pub mod RawState
pub mod Raw
pub mod Sealed
pub mod Seals
pub mod Tearing
pub mod Shown
pub mod Mem

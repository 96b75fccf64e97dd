pub mod Steps
pub mod Store
pub mod StoreValues
pub mod Disk

pub mod Steps
pub mod Pages
pub mod Blocks
pub mod Nand

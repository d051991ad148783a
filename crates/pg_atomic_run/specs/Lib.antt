pub mod Histories
pub mod Blocks
pub mod Worked

pub mod Acts
pub mod Rows
pub mod Inputs
pub mod Worked

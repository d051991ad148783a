pub mod Logs
pub mod Steps
pub mod Parts
pub mod Rows
pub mod Ends
pub mod Added
pub mod Moments

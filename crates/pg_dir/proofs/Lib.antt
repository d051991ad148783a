pub mod Below
pub mod Sending
pub mod Rows
pub mod Starts

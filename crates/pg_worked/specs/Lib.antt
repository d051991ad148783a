pub mod Marked
pub mod Runs
pub mod Refused

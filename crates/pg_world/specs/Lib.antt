pub mod Enabled
pub mod Indexed
pub mod Kept
pub mod Turns

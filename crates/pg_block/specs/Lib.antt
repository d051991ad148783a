pub mod Blocks
pub mod Fitted
pub mod Openings

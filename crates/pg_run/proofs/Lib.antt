pub mod Turns
pub mod Ends
pub mod Cycles
pub mod Blocks
pub mod Drains
pub mod Openings

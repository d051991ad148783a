pub mod Joined
pub mod Moves
pub mod Fits
pub mod Happens
pub mod Programs
pub mod Rows
pub mod Openings

pub mod Tags
pub mod Moves
pub mod Race
pub mod Steps

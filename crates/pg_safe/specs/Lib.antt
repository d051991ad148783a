pub mod Moving
pub mod OneRow
pub mod Work
pub mod Names
pub mod Invs
pub mod Standing
pub mod Worked

pub mod Networks
pub mod Lines
pub mod Directories
pub mod Worlds
pub mod Runs
pub mod Usable
pub mod Worked

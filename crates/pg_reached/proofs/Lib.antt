pub mod Join
pub mod Happens
pub mod Reached
pub mod Naming
pub mod Waiting

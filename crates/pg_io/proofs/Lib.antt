pub mod Gave
pub mod Holds
mod Given

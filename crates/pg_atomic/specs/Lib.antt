pub mod Receivers
pub mod States
pub mod Steps
pub mod Scripts
pub mod Safety
pub mod Accesses
pub mod Stores
pub mod Worked

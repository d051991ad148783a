pub mod Cuts
pub mod Firsts
pub mod Steps
pub mod Places
pub mod Weaker
pub mod Written
pub mod Joining

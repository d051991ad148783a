pub mod Orderly
pub mod Worked

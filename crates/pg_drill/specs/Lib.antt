pub mod Drills
pub mod Worked

pub mod Effects
pub mod Numbers
pub mod Worked

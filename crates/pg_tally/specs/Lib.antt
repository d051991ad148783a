pub mod Tallies
pub mod Summaries
pub mod Worked

pub mod HistoryLists
pub mod Steps
pub mod Counts
pub mod Ends
pub mod Told

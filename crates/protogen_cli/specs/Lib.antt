pub mod Words
pub mod Statuses
pub mod Replies
pub mod Ends
pub mod Judging
pub mod Runs

pub mod Shown
pub mod Ordering
pub mod Kept
pub mod Operations
pub mod Worked

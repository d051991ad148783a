pub mod Histories
pub mod Rule
pub mod Passes
pub mod Closing
pub mod Dealing
pub mod Gathering
pub mod Worked

pub mod Added
pub mod Number

pub mod Messages
pub mod Orders
pub mod Views
pub mod Worked

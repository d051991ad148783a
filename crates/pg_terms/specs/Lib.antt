pub mod Terms
pub mod Due
pub mod Rows

pub mod Final
pub mod Texts

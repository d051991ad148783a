pub mod Pairs
pub mod Forms
pub mod Reading
pub mod Kinds

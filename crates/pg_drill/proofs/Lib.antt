pub mod Texts
pub mod Lengths
pub mod Counts
pub mod Atomic

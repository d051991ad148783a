pub mod Ascii
pub mod Booleans
pub mod Clones
pub mod Ranks
pub mod ReadBack
pub mod Short

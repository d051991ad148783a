pub mod Few
pub mod Ready
pub mod Events
pub mod Sums
pub mod DirReady
pub mod Lists
pub mod Counts

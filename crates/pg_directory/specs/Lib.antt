pub mod DirEntries
pub mod CoreSets
pub mod Sends
pub mod Sound
pub mod Kinds
pub mod Requests

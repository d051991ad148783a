pub mod Source
pub mod Sink
pub mod ReadAll
pub mod WriteAll
pub mod Pieces
pub mod Memory
pub mod Real

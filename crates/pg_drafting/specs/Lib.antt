pub mod Named
pub mod Numbering
pub mod Draft

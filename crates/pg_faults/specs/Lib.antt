pub mod Answers
pub mod FirstFaults
pub mod LineRules

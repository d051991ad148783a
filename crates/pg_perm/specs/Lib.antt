pub mod Names
pub mod Rules
pub mod Classes
pub mod Drafts
pub mod Vocabularies
pub mod Words

pub mod Names
pub mod Options
pub mod Parsers
pub mod Rule

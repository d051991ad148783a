pub mod Firsts
pub mod Options
pub mod Spellings

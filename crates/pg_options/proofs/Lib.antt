mod Commands
mod Cuts
mod Firsts
mod Plain
mod Parses
mod Spells
mod Walks

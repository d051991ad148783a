mod Each
mod Direct
mod Marked

pub mod Numbers
mod Texts

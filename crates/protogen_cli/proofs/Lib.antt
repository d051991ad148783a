mod Replies
mod Runs
mod NoCommand

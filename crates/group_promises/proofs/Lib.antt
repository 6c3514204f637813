pub mod Ran
pub mod Taken
pub mod Prepareds
pub mod Entries
pub mod Commits
pub mod Gives
pub mod Truths
pub mod Steps

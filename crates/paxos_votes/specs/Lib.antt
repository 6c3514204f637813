pub mod Votes
pub mod Entries

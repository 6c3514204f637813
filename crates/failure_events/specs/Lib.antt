pub mod Watching
pub mod Counts

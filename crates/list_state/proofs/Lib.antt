pub mod Entries
pub mod Bodies
pub mod Bounds
pub mod Followed
pub mod Joined
pub mod Quiet

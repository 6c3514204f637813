pub mod Chains
pub mod Following
pub mod Inside
pub mod Presence

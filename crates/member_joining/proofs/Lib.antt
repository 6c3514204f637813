pub mod Joined
pub mod Readings
pub mod Told

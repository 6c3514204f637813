pub mod Giving
pub mod Adds
pub mod Places
pub mod Donors

pub mod Listing
pub mod Holding
pub mod Joining
pub mod Following
pub mod Settling

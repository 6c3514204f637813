pub mod Works
pub mod Queues
pub mod Following

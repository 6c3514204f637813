pub mod Ordered
pub mod Promises
pub mod Proposals
pub mod Standing
pub mod Offers
pub mod Choices

pub mod Remote
pub mod Entering
pub mod Joining
pub mod Standing
pub mod Committing
pub mod Ending
pub mod Giving
pub mod Resting

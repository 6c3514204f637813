pub mod Welcomes
pub mod Gives
pub mod Messages
pub mod Faults
pub mod FaultKinds
pub mod WelcomeParts
pub mod GiveParts

pub mod Changes
pub mod Bodies
pub mod Parts
pub mod PartPlaces
pub mod Faults
pub mod Kinds

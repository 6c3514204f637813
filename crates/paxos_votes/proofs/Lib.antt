pub mod SlotMaps
pub mod Votes
pub mod Decided

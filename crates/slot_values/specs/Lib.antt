pub mod Log
pub mod Values
pub mod Turns
pub mod TurnsInside
pub mod Slots
pub mod Joiners
pub mod Spelling

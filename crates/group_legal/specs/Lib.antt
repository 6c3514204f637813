pub mod Bases
pub mod Order
pub mod LawRun
pub mod Ranges
pub mod OwnRanges
pub mod EveryRun

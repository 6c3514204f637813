pub mod Incs
pub mod Ballots
pub mod Ids
pub mod Gtids
pub mod OpenParts

pub mod Numerals
pub mod Sets
pub mod Limits
pub mod Values
pub mod Says

pub mod Ranged
pub mod Truth
pub mod Growing

pub mod Lived
pub mod Knows

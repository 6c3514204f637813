mod Chains
mod Incs
mod Known
pub mod Rows

pub mod Spelt
pub mod Letters
pub mod Posts
pub mod Passes
pub mod Opening

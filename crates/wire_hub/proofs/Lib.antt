pub mod Lists
pub mod Keeps
pub mod Maps
pub mod Ties
pub mod Openings
pub mod Closings

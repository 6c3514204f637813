pub mod Flips
mod Logs
pub mod Shapes
pub mod Adds
pub mod Spans
pub mod Nexts
pub mod Listed
mod Joins
pub mod Members
mod Seats
mod Steps
mod Entries
mod Begins
mod Agrees
pub mod Lookups
mod Orders

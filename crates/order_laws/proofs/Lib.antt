mod Order
pub mod Lists
mod Agree
mod Inv
mod Votes
pub mod Acts
pub mod Leads
mod Proposes
mod Logs
pub mod Takes
mod Steps
pub mod Runs
mod Keeps
mod Taken
mod Made
mod Hands
mod Greets

pub mod Last
mod Plainly
mod Stored

pub mod Reading
pub mod Parts
pub mod Playing
pub mod Exits
pub mod Steps
pub mod Players
pub mod Makers
pub mod Clap

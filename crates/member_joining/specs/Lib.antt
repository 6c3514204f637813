pub mod Asking
pub mod Joins
pub mod Reading

pub mod Showing
pub mod Listing
pub mod Working

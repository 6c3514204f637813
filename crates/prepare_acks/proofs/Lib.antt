pub mod MapReads
pub mod Lists
pub mod Seats
pub mod Entries
pub mod Awaiting
pub mod Requiring
pub mod Sending

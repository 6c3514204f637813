pub mod Arranged
pub mod Cuts
pub mod Seats
pub mod Fits

pub mod Splitting
pub mod Counting
pub mod Decimals
pub mod Ranges
pub mod MadeRanges

pub mod Parts
pub mod Counting
pub mod Choosing
pub mod Missing

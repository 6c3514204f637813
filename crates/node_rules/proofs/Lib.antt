pub mod Incs
pub mod IncOrder
mod Rows
mod Parts
mod Welcomes

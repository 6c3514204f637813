mod Pasts
mod Servers
mod Nodes
mod Inv
mod Stepped
mod Others
mod Founding
pub mod Moves
mod Written

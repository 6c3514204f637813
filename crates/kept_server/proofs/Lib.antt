pub mod Free
pub mod Leading
pub mod Redone
pub mod Written

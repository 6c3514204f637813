pub mod Locking
pub mod Inside

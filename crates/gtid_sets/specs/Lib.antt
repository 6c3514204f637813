pub mod Sets
pub mod Canonical
pub mod Places
pub mod Spelling
pub mod Pieces
pub mod Text
pub mod Grammar
pub mod Scans

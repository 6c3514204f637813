pub mod Parts
pub mod Told
pub mod Notices
pub mod Leading
pub mod Left
pub mod Events

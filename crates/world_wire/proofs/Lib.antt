pub mod Dropping
pub mod Indexing
pub mod Least
pub mod Numbered
pub mod Members
pub mod Results
pub mod Rising

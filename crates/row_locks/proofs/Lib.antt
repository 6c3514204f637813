pub mod KeyReads
pub mod Losers
pub mod Places
pub mod Lists

pub mod EachOne
pub mod Watched
pub mod Ticking
pub mod Histories

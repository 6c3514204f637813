pub mod ToldMaps
pub mod ToldLists

pub mod Searches
pub mod Indexed

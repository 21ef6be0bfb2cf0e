pub mod Branches
pub mod Searches

pub mod Worths
pub mod Orders
pub mod Searches
pub mod Laws

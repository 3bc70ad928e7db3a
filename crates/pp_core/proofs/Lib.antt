mod Finds
pub mod Worths

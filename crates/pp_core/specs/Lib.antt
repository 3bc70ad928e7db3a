pub mod Runs
pub mod Worths
pub mod Journals
pub mod Laws

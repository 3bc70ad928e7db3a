pub mod Standing
pub mod Exploring
pub mod Searching

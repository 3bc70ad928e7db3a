pub mod Levels
pub mod Distances
pub mod Standing
pub mod Turns
pub mod Added
pub mod Arriving
pub mod Searched

pub mod Keeps
pub mod Weights

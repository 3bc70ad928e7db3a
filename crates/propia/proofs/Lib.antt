pub mod Handed
pub mod Recording

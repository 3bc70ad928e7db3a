pub mod Waiting
pub mod Flags

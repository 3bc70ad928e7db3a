pub mod Peeks
pub mod Turns

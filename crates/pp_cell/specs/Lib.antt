pub mod Entries
pub mod Gathers
pub mod Passes

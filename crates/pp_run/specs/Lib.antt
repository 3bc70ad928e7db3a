pub mod Endings
pub mod Refusals
pub mod Made
pub mod Summing

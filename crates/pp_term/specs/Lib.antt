pub mod Meanings
pub mod WellFormed

pub mod Marked
pub mod Committing
pub mod Fixing

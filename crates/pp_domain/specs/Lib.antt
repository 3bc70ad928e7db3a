pub mod Intervals
pub mod Sets
pub mod Merging
pub mod Equality

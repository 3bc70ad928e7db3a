pub mod Pairs
pub mod Hashing
pub mod Values

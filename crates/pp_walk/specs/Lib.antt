pub mod Places
pub mod Moves
pub mod Walking
pub mod Found

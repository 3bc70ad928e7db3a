pub mod Dealt
pub mod Hands
pub mod Steps
pub mod Stolen

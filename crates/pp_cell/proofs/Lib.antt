pub mod Books
pub mod Entries
pub mod Gathered
pub mod Replays
pub mod Rows
pub mod Turned

pub mod Meanings
pub mod Pieces
pub mod Renumbered
pub mod Values

pub mod Cells
pub mod Reading
pub mod Columns
pub mod Codes
pub mod Substitution
pub mod Givens

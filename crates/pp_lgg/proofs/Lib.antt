pub mod Common
pub mod Walked
pub mod Table
pub mod Steps
pub mod Unions
pub mod Columns

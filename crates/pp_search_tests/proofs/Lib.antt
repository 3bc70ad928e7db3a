pub mod Pushed
pub mod Marks

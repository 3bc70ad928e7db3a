pub mod Passed
pub mod Sizes
pub mod Sentences
pub mod Progress
pub mod Programs

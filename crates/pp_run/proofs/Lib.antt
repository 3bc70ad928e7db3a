pub mod Commands
pub mod EndingLemmas
pub mod Replying
pub mod Refusing
pub mod Running
pub mod Rows
pub mod Serving

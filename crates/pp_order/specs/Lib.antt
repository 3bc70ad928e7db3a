pub mod Reach
pub mod Bindings

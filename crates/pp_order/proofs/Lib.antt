pub mod Reaching
pub mod Taking
pub mod Walking
pub mod Columns

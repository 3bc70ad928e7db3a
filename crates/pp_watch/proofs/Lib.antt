pub mod Parts
mod Noting

pub mod Gaps
pub mod Fronts
pub mod Readings
pub mod Spans

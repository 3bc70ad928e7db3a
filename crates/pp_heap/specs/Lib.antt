pub mod Values
pub mod Stores
pub mod Agreement
pub mod Soundness
pub mod Spans
pub mod Sights
pub mod Outcomes

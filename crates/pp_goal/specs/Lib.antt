pub mod Acts
pub mod Apart
pub mod Arguments

pub mod Same
pub mod Alike
pub mod Taking
pub mod Commons
pub mod Kept
pub mod Lent

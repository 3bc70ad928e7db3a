pub mod Again
pub mod Fitting
pub mod Same
